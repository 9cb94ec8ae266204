pub mod Laid
pub mod Determined
pub mod Unguarded
