pub mod Written
pub mod StandAlone
