pub mod Waits
pub mod Seals
