pub mod Telling
pub mod TellingStores
