pub mod SectionLemmas
pub mod NameLemmas
pub mod ScopeLemmas
pub mod UnitAddressLemmas
pub mod ByUnitLemmas
pub mod LawLemmas
