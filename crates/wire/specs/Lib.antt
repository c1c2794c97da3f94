pub mod Bytes
pub mod Messages
pub mod Words
