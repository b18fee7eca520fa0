-- The laws that crates above cite.
pub mod Calls
pub mod Refused
pub mod Outputs
pub mod Joins
pub mod Prefixes
pub mod Letters
pub mod Cases
pub mod Taken
