-- What the page's promises are said with, over `model`'s entries, children and nodes.
pub mod Runs
pub mod Node
pub mod Page
