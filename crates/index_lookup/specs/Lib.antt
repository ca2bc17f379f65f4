pub mod Told
pub mod Among
pub mod AmongTold
pub mod AmongAsked
pub mod Views
pub mod Contents
pub mod Named
pub mod InnerAnswering
