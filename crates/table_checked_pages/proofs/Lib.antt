pub mod LevelLemmas
pub mod PageLemmas
pub mod ReadLemmas
pub mod PlaceLemmas
pub mod GroupLemmas
