pub mod Text
-- Theorems.
pub mod Longest
