pub mod Bounds
pub mod Unions
pub mod Members
pub mod Place
pub mod Listing
pub mod Search
pub mod SortedUnion
pub mod Retain
