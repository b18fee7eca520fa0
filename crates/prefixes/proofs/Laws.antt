-- The laws that crates above cite.
pub mod Bits
pub mod Steps
pub mod Lists
pub mod Covers
pub mod Order
pub mod Fewest
pub mod Held
pub mod Puts
pub mod Prefixes
