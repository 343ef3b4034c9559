-- Laws that belong to no one function.
pub mod Lent
pub mod Nodes
pub mod Copied
pub mod Several
pub mod Touching
pub mod Fitting
