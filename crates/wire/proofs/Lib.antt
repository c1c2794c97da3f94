pub mod Chunks
pub mod Filling
pub mod Words
pub mod Written
