pub mod Ready
pub mod Telling
pub mod Running
pub mod Remembering
