pub mod Steps
pub mod Lines
pub mod Lack
pub mod Kept
pub mod Room
pub mod machine
pub mod inside
