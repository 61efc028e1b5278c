pub mod Colours
pub mod Reported
pub mod Served
pub mod Works
