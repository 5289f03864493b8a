pub mod Texts
pub mod Expressions
pub mod Declarations
pub mod Statements
pub mod Files
pub mod Writing
