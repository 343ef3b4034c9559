-- What the page map's promises are said with, over `model`'s bits and free pages.
pub mod Bits
pub mod Lowest
