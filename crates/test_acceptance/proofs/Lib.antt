pub mod Partings
