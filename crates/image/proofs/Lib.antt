pub mod Cells
pub mod Chunks
pub mod FlatPut
pub mod Lines
pub mod Naming
pub mod Puts
pub mod SparsePut
