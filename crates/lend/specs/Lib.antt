-- What the promises of the parts lent are said with.
pub mod Pages
pub mod Touches
