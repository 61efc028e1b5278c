pub mod Bytes
pub mod Kept
pub mod Left
pub mod Readings
pub mod Written
