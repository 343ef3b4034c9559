-- What everything is proved against, in the order of document 01. Definitions only: the laws stand in proofs/.
-- First what a reader has to believe: the files that the public contracts reach, and nothing else in them.
-- lists and numbers, in general
pub mod Basics
-- "The pool": where the words lie, the head, the page map, the tree, a page
pub mod Layout
pub mod Head
pub mod PageMap
pub mod Tree
pub mod Page
-- the list model, which is what the source speaks of
pub mod Bound
pub mod Entries
-- "How the tree moves": by position; and the search path of a key
pub mod Gap
pub mod Search
pub mod Insert
pub mod Mend
pub mod Remove
pub mod Write
-- what a sound pool holds, and when a pool is sound
pub mod Pool
pub mod Sound
-- "Numbers a caller can be given", and "The calls"
pub mod Refusal
pub mod Call
pub mod PoolCalls
pub mod MapCalls
pub mod SetCalls
pub mod ListCalls
pub mod CursorCalls
pub mod Playback
-- Then what theorems about those contracts say: count, is-empty and close on a sound pool; any two outcomes agree, and
-- no call reads the words that are free; a season of use; the source's own words; "Bench cases"; the bodies that must
-- be rejected; and what the laws ask of a geometry
pub mod HeadCalls
pub mod Alike
pub mod Agree
pub mod Unread
pub mod Reached
pub mod Season
pub mod Source
pub mod Bench
pub mod Wrong
pub mod Lawful
-- And what serves the inner contracts and the proofs: sums, a tree standing in pages, the way to a gap, the pages that a
-- removal frees, and the words that hold a pool
pub mod Sums
pub mod Standing
pub mod Path
pub mod Freed
pub mod Written
