pub mod Types
pub mod Validity
pub mod Meaning
pub mod Runs
pub mod Laws
pub mod Simulation
