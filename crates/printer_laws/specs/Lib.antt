pub mod Offsets
pub mod Readings
