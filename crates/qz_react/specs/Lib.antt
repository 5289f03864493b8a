pub mod Contexts
pub mod Landing
pub mod Reacting
pub mod Seeing
