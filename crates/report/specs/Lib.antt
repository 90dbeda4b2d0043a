pub mod Report
-- Theorems.
pub mod Longest
