pub mod Columns
pub mod Lists
pub mod Entries
pub mod Places
pub mod Tied
pub mod Retirements
pub mod Together
pub mod Asked
pub mod EachTold
pub mod RunLemmas
pub mod PartLemmas
pub mod NamedSlices
pub mod OpenedLines
mod HeadedEntries
