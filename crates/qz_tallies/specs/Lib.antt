pub mod Tallies
pub mod Stores
