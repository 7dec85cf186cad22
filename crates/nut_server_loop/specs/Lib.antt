pub mod Record
pub mod Streams
pub mod Served
pub mod Memory
pub mod ServedAll
pub mod Offered
pub mod inside
