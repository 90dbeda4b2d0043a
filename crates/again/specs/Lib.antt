pub mod NewNumbers
pub mod Mirror
pub mod Runs
pub mod Conflicts
pub mod Alone
pub mod Again
