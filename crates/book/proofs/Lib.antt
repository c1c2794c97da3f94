pub mod Books
pub mod Largest
pub mod Last
pub mod Rising
