pub mod Chip
pub mod Kept
pub mod Laws
pub mod Places
pub mod State
pub mod Words
