pub mod Words
pub mod Phrases
pub mod Expressions
pub mod Declarations
pub mod StatementParts
pub mod Reading
pub mod Parts
