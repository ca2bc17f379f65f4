pub mod Pages
pub mod Standing
pub mod Views
pub mod Reading
pub mod Halving
pub mod Groups
pub mod GroupViews
pub mod InnerGroups
