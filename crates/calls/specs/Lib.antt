pub mod Address
pub mod Colours
pub mod Memory
pub mod Pairing
pub mod Power
pub mod Reads
pub mod Setters
