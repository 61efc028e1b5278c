pub mod Accepted
pub mod Lowest
pub mod Offset
pub mod Shape
