pub mod Numerals
pub mod Literals
pub mod TokenTexts
pub mod Wholes
pub mod FirstFaults
