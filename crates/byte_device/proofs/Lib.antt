pub mod Gains
pub mod Known
pub mod Taken
pub mod PlacedReading
