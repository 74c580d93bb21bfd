pub mod Giving
pub mod Hardware
