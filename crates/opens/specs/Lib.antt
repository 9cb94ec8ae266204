pub mod Heard
pub mod Responses
pub mod Opens
