pub mod Running
pub mod Rooms
pub mod examples
