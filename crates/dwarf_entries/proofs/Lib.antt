mod AttributeLemmas
mod SpecificationLemmas
mod DeclarationLemmas
mod KeyLemmas
mod SizeLemmas
mod EntryLemmas
