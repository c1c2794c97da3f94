pub mod Columns
pub mod Images
pub mod Offsets
pub mod Plots
pub mod Printing
pub mod Texts
