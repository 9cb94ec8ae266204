pub mod Arriving
pub mod Answering
pub mod Sending
