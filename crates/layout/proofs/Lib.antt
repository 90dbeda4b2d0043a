pub mod Bounds
pub mod EdgeLists
pub mod Headers
pub mod Walks
