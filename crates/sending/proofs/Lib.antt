pub mod Ways
pub mod Meaning
pub mod Determined
