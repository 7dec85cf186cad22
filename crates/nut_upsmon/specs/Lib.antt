pub mod Stopping
pub mod Acts
pub mod Course
pub mod Reading
pub mod Reload
pub mod Memory
pub mod inside
