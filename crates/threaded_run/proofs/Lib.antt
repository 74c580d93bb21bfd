pub mod Back
pub mod Closed
