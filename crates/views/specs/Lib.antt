pub mod Views
pub mod Effects
