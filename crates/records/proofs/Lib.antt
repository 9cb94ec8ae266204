pub mod Pieces
pub mod Determined
pub mod Kept
pub mod ReadBack
pub mod Filled
pub mod Invariants
