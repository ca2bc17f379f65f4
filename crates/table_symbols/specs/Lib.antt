pub mod Rows
pub mod Steps
pub mod Table
pub mod Opened
pub mod Found
