mod ShorterLemmas
pub mod RowLemmas
pub mod CoveringLemmas
pub mod RunLemmas
mod NameLemmas
