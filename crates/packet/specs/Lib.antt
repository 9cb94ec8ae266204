pub mod Hosts
pub mod Table
pub mod Figures
