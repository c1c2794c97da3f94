-- What lists hold, and what the books are found to hold by it.
pub mod Found
pub mod Kept
pub mod Member
pub mod All
pub mod ByKey
pub mod RowKeys
