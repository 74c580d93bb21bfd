pub mod Calls
pub mod Chip
pub mod Parts
