pub mod Profile
pub mod Reader
-- Laws of statements in a text.
pub mod Lines
pub mod More
-- How far a text goes along with a set of texts.
pub mod Stuck
pub mod Places
-- Theorems.
pub mod Exact
