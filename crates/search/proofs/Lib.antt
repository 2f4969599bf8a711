pub mod Lines
pub mod Taken
pub mod Filled
pub mod Marks
pub mod Reached
pub mod Meant
pub mod Circles
