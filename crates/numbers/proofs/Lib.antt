pub mod Clamped
pub mod Lists
pub mod Logic
pub mod Made
pub mod Table
