pub mod EventSite
pub mod Numbers
pub mod Events
pub mod Script
pub mod ScriptFlaws
pub mod Frames
pub mod FrameFlaws
