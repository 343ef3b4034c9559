-- What the cursor's contracts cite: what an entry says, the gap's words, the entry after the gap, opening, playback.
pub mod Answers
pub mod Gap
pub mod Ahead
pub mod Open
pub mod Playback
