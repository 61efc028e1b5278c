pub mod Bounds
pub mod Fit
