-- Bounds.
pub mod Raising
