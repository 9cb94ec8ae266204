pub mod Tokens
pub mod Grants
