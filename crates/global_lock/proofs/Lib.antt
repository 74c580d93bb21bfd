pub mod Retries
pub mod TestTurns
