-- What the exported functions' contracts cite: the words of each answer, and what a caller in C or Rust is given. And
-- what theorems say of those contracts: any two outcomes agree.
pub mod Words
pub mod Exported
pub mod Decided
