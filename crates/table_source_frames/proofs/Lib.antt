pub mod StepLemmas
pub mod NumberingLemmas
pub mod SameLemmas
pub mod ScopeLemmas
pub mod TextLemmas
pub mod StepGroupLemmas
pub mod TablePartLemmas
pub mod OpenedLemmas
pub mod OpeningLemmas
pub mod SearchLemmas
pub mod ByteLemmas
mod CountLemmas
pub mod SliceTables
