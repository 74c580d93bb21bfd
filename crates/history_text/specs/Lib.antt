pub mod Guess
pub mod Named
pub mod Text
pub mod Written
pub mod Lines
pub mod Reading
pub mod Laws
