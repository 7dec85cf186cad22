pub mod Apart
pub mod Drafts
pub mod Found
pub mod Misreads
pub mod Slots
pub mod Tables
pub mod Upses
