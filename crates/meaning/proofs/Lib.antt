-- Laws and theorems that rest on the definitions of specs/.
pub mod ReachLaws
pub mod Reduction
pub mod Colours
pub mod Traced
pub mod Demand
pub mod Staying
pub mod Dropped
pub mod Leftovers
