pub mod Masks
pub mod Octets
pub mod Kept
pub mod Parts
pub mod Walking
