pub mod Notes
pub mod Rows
