pub mod SoundReady
pub mod Variables
pub mod Listed
pub mod Placed
pub mod Picked
pub mod Hiding
