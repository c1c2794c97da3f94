pub mod SplitPuts
pub mod Splits
pub mod Stores
