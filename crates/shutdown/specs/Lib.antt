pub mod Shutdown
pub mod Accepts
