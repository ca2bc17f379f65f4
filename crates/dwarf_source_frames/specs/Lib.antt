pub mod DebugSections
pub mod SectionsViews
pub mod DebugUnits
pub mod UnitViews
pub mod UnitCode
pub mod Names
pub mod UnitLines
pub mod Frames
pub mod FrameViews
pub mod Scopes
pub mod UnitAddresses
-- definitions of inner functions: no contract of a public function uses them
pub mod Inner
pub mod AddressFrames
pub mod ByUnit
pub mod FoundUnits
