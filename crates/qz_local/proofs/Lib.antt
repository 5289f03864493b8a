pub mod SameRests
pub mod Adding
pub mod Known
pub mod Plainly
