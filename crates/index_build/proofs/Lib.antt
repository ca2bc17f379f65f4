pub mod Contents
pub mod Accepted
pub mod Sorted
pub mod TableLemmas
pub mod Grown
pub mod Made
pub mod Stopped
pub mod Ended
