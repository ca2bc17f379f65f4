pub mod Waiting
pub mod LazyInputProofs
pub mod OutPublished
pub mod Pathless
pub mod Outcomes
pub mod Saying
pub mod Noting
pub mod Spared
pub mod Openings
pub mod Extracted
mod Dispatched
mod Listed
mod Asked
mod First
