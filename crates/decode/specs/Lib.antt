pub mod Decodes
pub mod Challenges
