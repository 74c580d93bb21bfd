pub mod BurstMode
pub mod CodesInOrder
pub mod Status
