pub mod Matching
pub mod Asking
pub mod Exchange
pub mod Link
pub mod Hearing
pub mod Bounds
pub mod inside
pub mod laws
