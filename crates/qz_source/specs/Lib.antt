pub mod Marks
pub mod Spots
pub mod Sources
pub mod OneAnswer
