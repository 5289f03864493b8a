mod AnswerLemmas
pub mod RowLemmas
pub mod BuildLemmas
pub mod ClockLemmas
pub mod InputLemmas
pub mod SimLemmas
pub mod RunModeLemmas
