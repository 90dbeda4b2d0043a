pub mod Promise
pub mod Tests
