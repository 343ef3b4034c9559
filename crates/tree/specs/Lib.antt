-- What the tree's promises are said with.
pub mod Sits
pub mod Search
pub mod Steps
pub mod Write
pub mod Insert
pub mod Remove
pub mod Check
