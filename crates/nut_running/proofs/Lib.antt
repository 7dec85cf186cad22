pub mod Calls
pub mod Joining
pub mod Recorded
pub mod Laws
pub mod Worked
