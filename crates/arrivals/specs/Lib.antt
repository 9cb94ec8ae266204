pub mod Senders
pub mod Requests
pub mod Arrivals
