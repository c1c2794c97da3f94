pub mod LineKeys
pub mod Locks
pub mod Notes
pub mod Rows
