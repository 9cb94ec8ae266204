pub mod Calls
pub mod Spares
