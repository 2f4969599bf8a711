pub mod Refusals
pub mod Files
pub mod Table
pub mod Checked
pub mod Writing
pub mod Copying
