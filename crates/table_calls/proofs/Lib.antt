pub mod Laid
pub mod Determined
