pub mod Told
pub mod Matching
pub mod Digits
