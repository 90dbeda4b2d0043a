-- Theorems.
pub mod Interchange
pub mod Pocket
