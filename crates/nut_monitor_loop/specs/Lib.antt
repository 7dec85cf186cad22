pub mod Record
pub mod Watched
pub mod Memory
pub mod WatchedAll
pub mod inside
