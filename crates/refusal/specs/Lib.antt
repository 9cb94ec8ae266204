pub mod Numbers
pub mod Back
pub mod Verdicts
