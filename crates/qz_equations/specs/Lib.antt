pub mod Registers
pub mod Does
pub mod Tallies
pub mod Unrolled
pub mod Ends
pub mod Modules
pub mod Runs
