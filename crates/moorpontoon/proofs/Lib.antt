-- Laws of what a caller of an exported function is given, and that its promise decides it.
pub mod Deciding
pub mod Determined
pub mod Wrong
