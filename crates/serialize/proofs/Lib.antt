pub mod Choice
pub mod Lists
pub mod Le
pub mod Packed
pub mod Search
pub mod Loops
pub mod Determined
