pub mod Refusals
pub mod Counts
pub mod Order
pub mod Derivations
pub mod Books
