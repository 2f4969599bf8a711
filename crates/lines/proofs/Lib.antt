pub mod Texts
pub mod Computed
pub mod Lines
pub mod Steps
pub mod Replies
