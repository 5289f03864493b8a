pub mod DepthLemmas
pub mod EndingLemmas
