-- Laws of the calls that belong to no one function: what the answers say, pools made and copied, one entry by its key,
-- the calls by one key, lists; and that each promise decides its call.
pub mod Answers
pub mod Making
pub mod Placing
pub mod Calling
pub mod Listing
pub mod Spanning
pub mod Determined
