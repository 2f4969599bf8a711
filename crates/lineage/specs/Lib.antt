pub mod Finite
pub mod Lists
pub mod Closure
pub mod Book
pub mod Example
pub mod Theorems
