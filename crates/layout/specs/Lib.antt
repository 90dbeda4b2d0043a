pub mod Widths
pub mod Layout
pub mod Contents
pub mod Code
pub mod Steps
pub mod Along
