pub mod Arrival
pub mod Settling
pub mod Seats
pub mod Configured
pub mod inside
