pub mod Maker
pub mod Summary
