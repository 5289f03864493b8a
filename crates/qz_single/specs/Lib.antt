pub mod Numbering
pub mod Compiled
pub mod Made
pub mod Numbered
pub mod DelayedTo
pub mod Joined
