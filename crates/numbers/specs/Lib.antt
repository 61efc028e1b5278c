pub mod Bits
pub mod Entries
pub mod Numbers
