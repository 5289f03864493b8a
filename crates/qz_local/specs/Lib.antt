pub mod Joined
pub mod Nets
pub mod Plain
