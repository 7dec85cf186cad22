pub mod Events
pub mod Texts
pub mod Monitors
pub mod Bounds
pub mod inside
