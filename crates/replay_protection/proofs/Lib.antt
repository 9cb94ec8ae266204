pub mod Ways
pub mod Sound
pub mod Exactly
pub mod Histories
pub mod Stored
pub mod Reached
pub mod Worked
pub mod Determined
