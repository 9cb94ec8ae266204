pub mod Outcomes
pub mod Packets
