pub mod Changes
pub mod Machine
pub mod Read
