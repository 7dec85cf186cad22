pub mod Hearing
pub mod Late
pub mod Moments
pub mod Queue
pub mod Turns
pub mod inside
