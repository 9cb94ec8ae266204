pub mod Spaced
pub mod Hex
pub mod Determined
