pub mod Bounds
pub mod ReadBack
