pub mod State
pub mod Ready
pub mod Answers
pub mod Asking
pub mod Held
