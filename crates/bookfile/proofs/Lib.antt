pub mod Arrays
pub mod Columns
pub mod Table
pub mod Files
pub mod Walking
pub mod Places
pub mod Entering
pub mod Written
