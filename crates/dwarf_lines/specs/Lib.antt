pub mod Header
pub mod Instructions
pub mod Machine
pub mod Covering
pub mod Views
pub mod Names
pub mod NameViews
pub mod Paths
pub mod PathViews
-- definitions of inner functions: no contract of a public function uses them
pub mod Inner
pub mod Runs
