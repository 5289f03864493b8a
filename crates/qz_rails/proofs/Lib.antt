pub mod BitNumbers
pub mod Digits
pub mod Telling
pub mod Selecting
pub mod TellingLeaves
pub mod Changing
