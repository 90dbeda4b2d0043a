pub mod Marks
pub mod Faults
pub mod Laws
pub mod Steps
