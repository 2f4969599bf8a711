pub mod Forms
pub mod Texts
pub mod Computed
pub mod Faults
pub mod Replies
pub mod Lines
pub mod Reading
pub mod Theorems
