pub mod Ways
pub mod Verdicts
pub mod Inversions
pub mod Pieces
pub mod AnswersBack
pub mod Determined
