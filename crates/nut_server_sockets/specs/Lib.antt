pub mod Reloads
pub mod Seats
pub mod Turns
pub mod Untold
pub mod Waits
pub mod inside
