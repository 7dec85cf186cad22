pub mod Obeyed
pub mod Orders
