pub mod Kinds
pub mod Bodies
pub mod Tokens
