pub mod Desk
pub mod Heads
pub mod Packets
pub mod Tokens
