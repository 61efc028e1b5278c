pub mod File
pub mod Front
pub mod Profile
