pub mod Answers
pub mod Front
pub mod Modes
pub mod Served
pub mod ReplayAnswers
pub mod ReplayFiles
