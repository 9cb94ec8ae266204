pub mod Fields
pub mod Back
pub mod Determined
