pub mod Ways
pub mod Listed
pub mod RepliesBack
pub mod Filled
pub mod Answers
pub mod Determined
