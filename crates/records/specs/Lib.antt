pub mod Records
pub mod Reads
