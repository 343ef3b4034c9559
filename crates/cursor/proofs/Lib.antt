-- Laws of the cursor that belong to no one function: the gap's words, the entry after the gap, opening, the calls that
-- look forward and those that look back, the edits, playback; and that each promise decides its call.
pub mod Gaps
pub mod Nexts
pub mod Opens
pub mod Forward
pub mod Backward
pub mod Edits
pub mod Playing
pub mod Determined
