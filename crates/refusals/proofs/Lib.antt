pub mod Answers
pub mod Arrivals
pub mod Seals
pub mod Opens
pub mod Grants
pub mod Sending
