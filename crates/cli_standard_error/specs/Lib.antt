pub mod Names
pub mod FileKinds
pub mod Hints
pub mod Seen
pub mod StandardError
pub mod Ending
