pub mod Names
pub mod Spelling
pub mod Lines
pub mod Text
pub mod Writing
