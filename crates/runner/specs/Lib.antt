pub mod Ask
pub mod Line
pub mod Lines
pub mod Run
