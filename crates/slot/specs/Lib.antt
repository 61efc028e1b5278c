pub mod Image
pub mod Record
pub mod Held
pub mod Calls
