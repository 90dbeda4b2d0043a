pub mod Tests
pub mod Walks
pub mod Leaving
