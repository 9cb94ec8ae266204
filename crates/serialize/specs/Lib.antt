pub mod Choice
pub mod Runs
pub mod Le
pub mod Search
