pub mod Borrowed
pub mod Merging
pub mod Sides
pub mod MergeSteps
pub mod Arrivals
pub mod ArrivalMerge
pub mod ArrivalSteps
pub mod Losses
