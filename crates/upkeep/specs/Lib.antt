pub mod SetUps
pub mod Fresh
pub mod Clocks
pub mod Limits
