pub mod Gathered
pub mod Kept
pub mod Questioned
pub mod Sought
pub mod Stable
pub mod RowsTold
pub mod Gatherings
