pub mod Content
pub mod Asked
pub mod Making
pub mod InnerMaking
pub mod Index
pub mod InnerIndexing
