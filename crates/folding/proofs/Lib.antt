pub mod Accepted
pub mod Folding
