pub mod Place
pub mod Search
pub mod Moves
pub mod Edits
pub mod Keys
pub mod Told
