pub mod Ways
pub mod Determined
