pub mod Words
pub mod Reasons
pub mod Verdict
pub mod Ends
pub mod Laws
