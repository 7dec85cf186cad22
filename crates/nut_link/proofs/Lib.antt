pub mod Headings
pub mod Writable
pub mod Advancing
pub mod Feeding
pub mod Matches
pub mod Bounded
