pub mod ListLemmas
pub mod ArangeLemmas
pub mod TupleLemmas
