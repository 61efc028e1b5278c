mod Example
pub mod Digits
pub mod First
pub mod Lines
pub mod Put
pub mod Running
pub mod Walk
pub mod Whole
pub mod Written
