pub mod Kind
pub mod Layout
pub mod Slices
pub mod FatFault
-- the terms of inner functions: no contract of a public function has them
pub mod InnerTable
