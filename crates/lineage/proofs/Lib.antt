-- Numbers, lists, chains.
pub mod Numbers
pub mod Kept
pub mod Rising
pub mod Places
pub mod Ranks
pub mod Reach
-- T, N, X and Y of any list of links.
pub mod Closure
pub mod Counts
pub mod Rows
-- Forests.
pub mod Forest
pub mod Preorder
-- Books.
pub mod Groups
pub mod Tree
pub mod Listing
pub mod Notions
pub mod Links
pub mod Labels
pub mod Exact
pub mod Bound
pub mod Few
pub mod Worked
-- Books, in the forms that running code goes by.
pub mod Sizes
pub mod Parents
pub mod Numbering
pub mod Pairs
