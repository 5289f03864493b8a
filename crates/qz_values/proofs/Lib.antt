pub mod Numbers
pub mod Widths
pub mod Typed
pub mod Given
pub mod Monotone
pub mod Connectives
