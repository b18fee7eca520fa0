-- The laws that crates above cite, and those of the search's own functions.
pub mod Right
pub mod Reach
pub mod Kept
pub mod Walks
pub mod Agrees
pub mod Levels
pub mod Turns
