-- What the contracts of the table cite: the value that a word says.
pub mod Places
