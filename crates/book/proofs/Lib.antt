pub mod Derivations
pub mod Taken
pub mod Books
pub mod Turns
