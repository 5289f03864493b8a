pub mod Appending
pub mod Bodies
pub mod Steps
