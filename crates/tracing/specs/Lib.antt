pub mod Answers
pub mod Tracing
pub mod Promise
pub mod Riding
