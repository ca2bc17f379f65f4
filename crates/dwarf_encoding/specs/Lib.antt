pub mod LittleEndian
pub mod Leb128
pub mod Text
pub mod Sequences
pub mod Units
pub mod Values
pub mod FormNumbers
pub mod Forms
pub mod Views
pub mod TextSections
pub mod TextViews
-- definitions of inner functions: no contract of a public function uses them
pub mod UnitTable
pub mod Inner
