pub mod Held
pub mod InTurn
pub mod Unread
