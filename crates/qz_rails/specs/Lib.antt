pub mod Bits
pub mod Sums
pub mod Rails
pub mod Operators
pub mod Changes
