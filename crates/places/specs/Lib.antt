pub mod Layout
pub mod Finds
pub mod Columns
pub mod Keys
