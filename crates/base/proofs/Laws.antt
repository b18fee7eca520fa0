-- The laws that crates above cite.
pub mod Decides
pub mod Lists
pub mod Each
pub mod Members
pub mod Firsts
pub mod Filled
pub mod Scans
pub mod Passing
pub mod Numbers
pub mod Bits
pub mod Pairs
pub mod Bounds
pub mod Outputs
pub mod Copying
pub mod Checks
pub mod Answers
pub mod Ascending
