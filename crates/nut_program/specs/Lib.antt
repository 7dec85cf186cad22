pub mod Folder
pub mod Memory
pub mod Reading
pub mod Turns
pub mod Unknown
