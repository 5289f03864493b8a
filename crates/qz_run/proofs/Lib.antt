pub mod FormalLemmas
pub mod RunLemmas
pub mod GoingLemmas
