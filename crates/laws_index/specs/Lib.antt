pub mod Indexes
pub mod Contents
pub mod Refusing
pub mod Undecided
