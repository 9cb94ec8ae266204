pub mod Sums
pub mod Order
pub mod Meaning
pub mod Determined
