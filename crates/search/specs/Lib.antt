pub mod Following
pub mod Rows
pub mod Marks
pub mod Walks
pub mod Plain
