pub mod Nlist
pub mod Symbols
pub mod Fault
pub mod Nearest
pub mod Found
pub mod Views
pub mod SectionNumbers
pub mod SectionPlaces
pub mod Rows
pub mod Steps
pub mod NulPlaces
pub mod Table
pub mod Suffixes
-- definitions of inner functions: no contract of a public function uses them
pub mod InnerCandidates
pub mod InnerRanks
