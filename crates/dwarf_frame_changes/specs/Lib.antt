pub mod Turns
pub mod UnitSteps
pub mod Given
pub mod Taking
pub mod UnitNumbers
pub mod Between
pub mod ByProgram
