pub mod Going
pub mod MemoryLaws
