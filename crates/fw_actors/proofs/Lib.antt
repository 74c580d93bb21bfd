pub mod CtlEntries
pub mod Giving
