pub mod Arc
pub mod Levels
