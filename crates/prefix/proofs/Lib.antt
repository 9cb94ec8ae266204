pub mod Fewest
pub mod Masks
pub mod Wire
pub mod Determined
