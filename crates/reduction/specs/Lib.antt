-- What the call promises.
pub mod Answers
pub mod Reducing
pub mod Promise
