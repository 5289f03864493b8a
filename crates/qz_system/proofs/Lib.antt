mod RestLemmas
pub mod Finding
pub mod NetLemmas
pub mod Reading
pub mod FitLemmas
pub mod WriterLemmas
mod SettleLemmas
pub mod RoundLemmas
pub mod TypingLemmas
