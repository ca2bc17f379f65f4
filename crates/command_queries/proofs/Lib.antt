mod Found
pub mod NamesTogether
pub mod Placed
pub mod AnswersWithFrames
pub mod Answered
pub mod Unread
