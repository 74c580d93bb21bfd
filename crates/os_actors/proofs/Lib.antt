pub mod Giving
pub mod HostEntries
pub mod Latching
pub mod Pending
