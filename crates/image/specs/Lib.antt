pub mod Faults
pub mod FlatStores
pub mod Flats
pub mod Keeping
pub mod Lines
pub mod Memory
pub mod SparseStores
pub mod Sparses
