pub mod Rides
pub mod RoundTrip
pub mod Demand3
pub mod Release
