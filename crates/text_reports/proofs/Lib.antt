pub mod Escapes
pub mod Grouped
pub mod Counted
pub mod Named
pub mod FrameTexts
pub mod Kept
pub mod Sliced
