pub mod Entries
pub mod Refused
pub mod Joined
pub mod Groups
pub mod RowsAmong
pub mod UnderRows
mod Found
