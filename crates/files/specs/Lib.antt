pub mod Files
pub mod Tests
pub mod Written
pub mod Faulty
pub mod Places
