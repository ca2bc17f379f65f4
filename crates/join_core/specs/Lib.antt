pub mod Bound
pub mod Listing
pub mod InnerSearch
