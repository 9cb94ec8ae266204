pub mod Packets
pub mod Clients
