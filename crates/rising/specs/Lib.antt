pub mod Order
pub mod Lists
pub mod Halving
pub mod Outcomes
pub mod Laws
