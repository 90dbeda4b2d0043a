pub mod Shrunk
-- Theorems.
pub mod Longest
