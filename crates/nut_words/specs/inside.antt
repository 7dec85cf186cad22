pub mod Inside
pub mod WordsInside
pub mod Reading
