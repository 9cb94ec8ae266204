pub mod Replies
pub mod Queries
pub mod Exact
