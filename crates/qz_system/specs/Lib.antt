pub mod Shapes
pub mod Restings
pub mod Parts
pub mod Valuations
pub mod Writers
pub mod Rounds
pub mod Nexts
