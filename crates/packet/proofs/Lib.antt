pub mod RoundTrip
pub mod TokenTrip
pub mod Exactly
pub mod Worked
pub mod Figures
