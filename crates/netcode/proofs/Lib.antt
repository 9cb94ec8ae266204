pub mod Words
pub mod Together
pub mod Quickly
pub mod Back
pub mod Determined
pub mod Speaks
