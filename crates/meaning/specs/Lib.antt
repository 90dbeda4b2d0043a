-- Definitions, in the order of document 01.
pub mod Pick
pub mod Search
pub mod Filter
pub mod Trace
pub mod Reach
pub mod Classes
pub mod Reduced
pub mod Fault
-- Laws.
pub mod Cases
pub mod SearchLaws
pub mod TraceLaws
pub mod ClassesLaws
pub mod Listing
