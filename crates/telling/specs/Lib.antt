pub mod Codes
pub mod ToC
