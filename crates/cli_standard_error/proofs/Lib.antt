pub mod SecondLines
pub mod Named
pub mod Saying
pub mod Reasons
pub mod OneLine
pub mod Seeing
mod Beginning
