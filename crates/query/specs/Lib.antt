pub mod Bits
pub mod Heard
pub mod Lamp
pub mod Reply
pub mod Status
pub mod Walk
