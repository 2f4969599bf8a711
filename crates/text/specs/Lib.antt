pub mod Placing
pub mod Numerals
