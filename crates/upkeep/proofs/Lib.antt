pub mod Marks
pub mod Ways
pub mod Tested
pub mod Begun
pub mod Meaning
pub mod Determined
