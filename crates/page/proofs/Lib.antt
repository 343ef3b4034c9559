-- Laws that belong to no one function.
pub mod Running
pub mod Leading
pub mod Parts
pub mod Tables
pub mod Pages
pub mod Finding
pub mod Splitting
