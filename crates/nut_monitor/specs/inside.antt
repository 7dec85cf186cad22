pub mod Hearing
pub mod Steps
pub mod Inside
pub mod Sound
