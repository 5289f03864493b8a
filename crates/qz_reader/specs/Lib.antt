pub mod Starts
pub mod Statements
pub mod Formals
pub mod Files
pub mod Texts
