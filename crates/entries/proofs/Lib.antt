pub mod Marks
pub mod Last
pub mod Oldest
pub mod Ways
pub mod Written
pub mod Meaning
pub mod Determined
