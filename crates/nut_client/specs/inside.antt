pub mod Between
pub mod Conversation
pub mod Parameters
pub mod Reading
pub mod Sending
pub mod Unread
