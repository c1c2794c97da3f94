pub mod Answered
pub mod Counter
pub mod Served
pub mod Streams
