pub mod Reading
pub mod UpsOption
