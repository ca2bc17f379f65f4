pub mod File
pub mod Take
pub mod Accepted
-- the terms of inner functions, and of `take_accepted`
pub mod InnerTaking
