pub mod Laid
pub mod Told
pub mod Calls
pub mod Quick
pub mod Speaking
