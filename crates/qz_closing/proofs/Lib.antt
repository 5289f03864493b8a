pub mod ShapeFolds
pub mod ShapeRests
pub mod PlacesBack
pub mod ShapeLives
pub mod Getting
pub mod ProgramCells
pub mod Permitted
