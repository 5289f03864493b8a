pub mod Equations
pub mod Written
