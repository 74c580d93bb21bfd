mod Faultless
mod Form
mod Light
pub mod Plain
pub mod Rows
