pub mod Alike
pub mod AlikeExpressions
pub mod AlikeStatements
pub mod AlikeFiles
pub mod PiecesAgain
pub mod Fillers
pub mod Growing
pub mod TextFaults
