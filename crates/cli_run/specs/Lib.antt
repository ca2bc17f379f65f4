pub mod Queries
pub mod Plans
pub mod Unopened
pub mod Disks
pub mod Openings
pub mod Files
pub mod Ends
