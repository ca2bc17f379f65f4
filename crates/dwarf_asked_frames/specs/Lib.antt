pub mod FoundFrames
