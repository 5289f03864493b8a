pub mod Counting
pub mod Cutting
pub mod Placing
pub mod Seen
pub mod Ways
pub mod Writing
