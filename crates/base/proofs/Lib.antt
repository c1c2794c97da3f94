pub mod Clash
pub mod Stamps
