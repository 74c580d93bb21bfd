pub mod Actors
pub mod Rounds
pub mod Seats
pub mod Shared
