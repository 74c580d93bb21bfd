pub mod Check
pub mod CommandLine
pub mod Ending
pub mod Headline
pub mod Run
pub mod Words
