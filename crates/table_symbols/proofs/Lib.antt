pub mod RowLemmas
pub mod NameLemmas
pub mod OneSteps
pub mod TableLemmas
pub mod HeadedLemmas
pub mod FoundLemmas
mod TextLemmas
mod MakingLemmas
