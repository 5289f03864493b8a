pub mod Types
pub mod Values
pub mod Tables
pub mod Operators
pub mod Knowledge
pub mod Fits
pub mod Order
