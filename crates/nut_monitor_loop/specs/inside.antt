pub mod Kept
pub mod MemoryLaws
