pub mod ProgramParts
pub mod ShapesOf
pub mod Encoding
pub mod Closes
pub mod Shaped
