pub mod Telling
pub mod Places
pub mod Outcomes
