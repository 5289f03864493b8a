pub mod Answers
pub mod Counts
pub mod Entries
pub mod Held
