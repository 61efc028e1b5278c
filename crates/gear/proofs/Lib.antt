pub mod Bounds
pub mod Built
pub mod Fit
pub mod Kept
pub mod Member
pub mod Refusals
