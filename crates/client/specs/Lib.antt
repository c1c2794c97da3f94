pub mod Slips
pub mod Tickets
