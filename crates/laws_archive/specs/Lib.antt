pub mod Crashes
pub mod Joins
pub mod Refusals
pub mod Sequences
pub mod Stops
