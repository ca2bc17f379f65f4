pub mod Assigned
pub mod Rising
pub mod Waiting
