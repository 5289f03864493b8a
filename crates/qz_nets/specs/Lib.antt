pub mod Nets
pub mod Tables
pub mod Readings
