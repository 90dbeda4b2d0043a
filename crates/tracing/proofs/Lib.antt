pub mod Laws
pub mod Calls
pub mod Unique
pub mod Places
