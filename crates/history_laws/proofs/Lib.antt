pub mod ActsOnce
pub mod CodeOrder
pub mod Consuming
pub mod JobOrder
pub mod LastEntries
pub mod Parking
