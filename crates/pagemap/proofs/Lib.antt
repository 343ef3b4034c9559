-- The laws that the page map's functions, and their callers, are proved with.
pub mod Map
pub mod Taking
