pub mod Head
pub mod Sealed
