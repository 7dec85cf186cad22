pub mod Pieces
pub mod Writes
