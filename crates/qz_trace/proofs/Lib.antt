pub mod PartLemmas
pub mod Decimals
pub mod FieldLemmas
pub mod RowLemmas
pub mod Steps
pub mod Agree
