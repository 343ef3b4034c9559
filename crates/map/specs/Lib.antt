-- What map's contracts cite: what the answers say, bounds in code, one entry by its key, lists.
pub mod Answers
pub mod Bound
pub mod Entry
pub mod List
