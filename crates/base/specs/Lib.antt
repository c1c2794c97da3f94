pub mod Keys
pub mod Kinds
pub mod Refusals
pub mod Stamps
pub mod Values
pub mod Words
