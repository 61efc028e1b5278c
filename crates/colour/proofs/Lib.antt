pub mod Fit
pub mod Kept
pub mod KeptLimits
pub mod Left
pub mod Readings
