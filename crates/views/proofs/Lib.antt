pub mod Stores
pub mod Spread
