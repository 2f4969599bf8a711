-- The last event, the last call, and that the law leaves one answer.
pub mod Last
pub mod LastCall
pub mod Refusals
pub mod Orders
pub mod Histories
-- For a running shop: one more event, the lists that it keeps, what its parts refuse, which answers are lawful.
pub mod Steps
pub mod Books
pub mod Sheets
pub mod Lengths
pub mod Kept
pub mod Owed
pub mod Answering
-- What lawful histories are like.
pub mod Bounds
pub mod Made
