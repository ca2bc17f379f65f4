pub mod OutAccounts
pub mod Same
pub mod Publishings
pub mod Asked
pub mod Compared
mod PlacesHeld
mod Kept
pub mod Described
mod DraftNames
mod Said
mod Comparisons
mod ByHand
