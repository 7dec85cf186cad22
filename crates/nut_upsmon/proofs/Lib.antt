mod Lines
mod Bounds
pub mod Acted
pub mod Coursing
