pub mod Book
pub mod Days
pub mod Worked
