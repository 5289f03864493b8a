pub mod Runs
pub mod Words
pub mod Blanks
pub mod Pieces
pub mod Starts
pub mod Lexemes
