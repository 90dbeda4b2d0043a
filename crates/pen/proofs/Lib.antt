pub mod Runs
pub mod Parts
pub mod Reading
pub mod Pens
