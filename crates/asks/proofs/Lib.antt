pub mod Lent
pub mod Determined
