pub mod Knowing
pub mod Nets
pub mod Settling
pub mod OneRound
pub mod Ends
