pub mod Held
pub mod Extracted
pub mod Sent
pub mod ByEntry
pub mod ChosenEntries
mod Passes
