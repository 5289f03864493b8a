pub mod Sound
pub mod WireTable
pub mod Rails
pub mod NetRails
