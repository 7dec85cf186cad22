pub mod Limits
pub mod Laws
pub mod Tracked
pub mod Reloads
pub mod Shown
pub mod Rights
