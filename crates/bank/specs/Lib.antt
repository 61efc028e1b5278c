pub mod Build
pub mod Memory
pub mod Setters
