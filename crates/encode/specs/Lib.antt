pub mod Encodes
pub mod Generates
