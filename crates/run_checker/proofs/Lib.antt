mod Completing
mod Given
mod Lists
pub mod OneVerdict
mod Runs
mod Steps
mod Told
