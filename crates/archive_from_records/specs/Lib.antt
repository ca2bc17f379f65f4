pub mod Keys
pub mod Names
pub mod InnerNames
pub mod InnerRows
pub mod InnerKeys
pub mod InnerKeeping
