pub mod Devices
pub mod Limits
pub mod Writes
pub mod Disks
pub mod Places
