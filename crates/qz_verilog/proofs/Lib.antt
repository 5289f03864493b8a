pub mod ValidityLemmas
pub mod RightSides
pub mod Settling
pub mod Running
pub mod KeepingTypes
pub mod Reading
pub mod WireByWire
pub mod Clocking
