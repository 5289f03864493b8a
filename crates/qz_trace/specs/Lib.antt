pub mod Lines
pub mod Rows
pub mod Faults
pub mod Outcomes
pub mod Reading
