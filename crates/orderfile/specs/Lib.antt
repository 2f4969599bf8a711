pub mod Answering
pub mod Days
pub mod Laws
