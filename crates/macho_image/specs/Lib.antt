pub mod Layout
pub mod Commands
pub mod Fault
pub mod Contents
pub mod Kinds
pub mod Sections
pub mod SectionViews
-- definitions of inner functions: no contract of a public function uses them
pub mod Inner
