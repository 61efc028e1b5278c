pub mod Banks
pub mod BlindCalls
pub mod Kept
pub mod Left
