pub mod Layout
pub mod Finds
