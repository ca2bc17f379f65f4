pub mod Readers
pub mod Archives
pub mod Endings
pub mod Amidst
pub mod Given
pub mod Parts
pub mod Alike
