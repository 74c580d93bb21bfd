pub mod Prepared
pub mod Raced
