pub mod Programs
pub mod Causes
