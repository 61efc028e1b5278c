pub mod Kinds
pub mod Slot
pub mod Step
