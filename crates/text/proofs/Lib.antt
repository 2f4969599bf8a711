pub mod Placing
pub mod Lengths
pub mod Fronts
pub mod Back
pub mod Computed
mod Writes
