pub mod Tests
pub mod Sending
pub mod Ways
pub mod Determined
