pub mod Giving
pub mod Hosts
