pub mod Frame
pub mod Ways
pub mod Searches
pub mod Same
pub mod Counted
pub mod Apart
pub mod Determined
