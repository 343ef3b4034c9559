-- The laws of model's definitions. In general: cases, lists, sums.
pub mod Cases
pub mod Basics
pub mod Sums
-- the page map, the bits of a word, geometries that are lawful, and the head
pub mod PageMap
pub mod Word
pub mod Lawful
pub mod Head
-- the list model
pub mod Entries
-- a page in walking order, the place of a gap, the search by keys, the path to a leaf
pub mod Weave
pub mod Gap
pub mod Search
-- how the tree moves
pub mod Cut
pub mod Insert
pub mod Gone
pub mod Mend
pub mod Remove
pub mod Path
pub mod Write
-- the numbers of demand 3
pub mod Numbers
pub mod Room
-- the tree read from pages, and standing in them
pub mod Read
pub mod Standing
-- what a pool holds, and what each call makes of it
pub mod Right
pub mod Calls
pub mod Keeps
-- the words that hold a pool, the pages reached by words alone, and what two pools that hold the same share
pub mod Written
pub mod Cursorless
pub mod Reached
pub mod Alike
-- how a call comes to meet its promise
pub mod Meets
-- the pages read
pub mod Reading
-- calls that look at the head alone, a pool just made among them
pub mod Making
pub mod HeadCalls
-- any two outcomes agree
pub mod Agree
pub mod Unread
-- a season of use
pub mod Season
-- the source's clauses, of the calls
pub mod SourceMap
pub mod SourceSet
pub mod SourceList
pub mod SourceCursor
-- the bench cases, and the bodies that must be rejected
pub mod Bench
pub mod Wrong
