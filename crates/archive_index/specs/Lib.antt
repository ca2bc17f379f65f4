pub mod InnerTaking
pub mod InnerRange
pub mod InnerScan
pub mod InnerNames
pub mod InnerOrder
pub mod InTurn
pub mod PutAt
pub mod Taking
