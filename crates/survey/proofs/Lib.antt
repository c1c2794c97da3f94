pub mod Across
pub mod Amid
pub mod Prints
pub mod Streams
