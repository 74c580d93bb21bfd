pub mod Entries
pub mod Events
pub mod PinSets
pub mod FreeTurns
pub mod Giving
pub mod Turns
pub mod SharedTurns
