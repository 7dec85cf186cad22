pub mod Adding
pub mod RowInside
