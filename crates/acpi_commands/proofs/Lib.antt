pub mod Checks
pub mod Exact
pub mod Places
pub mod RunLemmas
pub mod Splitting
pub mod Starting
