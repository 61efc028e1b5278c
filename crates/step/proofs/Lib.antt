pub mod Decoded
pub mod OnFit
pub mod Slots
