pub mod Handing
pub mod Silence
pub mod Turns
pub mod inside
