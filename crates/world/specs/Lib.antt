pub mod Calls
pub mod Duties
pub mod Giving
pub mod Serial
pub mod Shared
pub mod Stepping
