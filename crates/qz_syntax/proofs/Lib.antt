pub mod Equations
pub mod Trees
pub mod SizeLemmas
pub mod SpellingLemmas
pub mod Fusion
pub mod EndingLemmas
pub mod NumberLemmas
