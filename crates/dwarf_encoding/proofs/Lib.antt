mod Leb128Lemmas
mod WrittenLemmas
pub mod Texts
pub mod SequenceLemmas
pub mod ShorterLemmas
pub mod UnitLemmas
