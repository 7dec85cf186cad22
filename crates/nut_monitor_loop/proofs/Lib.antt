pub mod Sent
pub mod Handed
pub mod Steps
pub mod Arrivals
pub mod Writes
pub mod Settles
pub mod Noted
pub mod Replayed
