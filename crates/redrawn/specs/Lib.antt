-- Theorems.
pub mod Redrawn
pub mod Outside
pub mod Longest
