pub mod Shops
pub mod Runs
pub mod Loads
