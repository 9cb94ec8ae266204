pub mod Replay
pub mod Arrivals
pub mod Stored
pub mod Ours
