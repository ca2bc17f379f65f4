pub mod FatFaults
pub mod SlicePlaces
