mod Above
pub mod BadLines
pub mod Described
mod FirstLine
mod Guesses
mod Names
mod Numbers
pub mod Parked
mod Steps
pub mod Writing
