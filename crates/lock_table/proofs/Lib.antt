pub mod Attempts
pub mod Closing
pub mod Collecting
pub mod Histories
pub mod Joining
pub mod LockWord
pub mod OneStep
pub mod Opening
pub mod PartLists
pub mod PinWord
pub mod PinWords
mod Places
pub mod QuietTurns
pub mod Rooting
pub mod SeatFacts
pub mod Splitting
pub mod Stepping
pub mod TurnSteps
