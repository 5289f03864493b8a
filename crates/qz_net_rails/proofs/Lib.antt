pub mod Operands
pub mod Growing
pub mod Forms
