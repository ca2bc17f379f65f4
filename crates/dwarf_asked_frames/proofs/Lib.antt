mod FoundLemmas
mod LinkLemmas
