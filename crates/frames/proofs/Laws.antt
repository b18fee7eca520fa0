-- The laws that crates above cite.
pub mod Refusals
pub mod Parts
pub mod Numbers
pub mod Claims
pub mod Growing
pub mod Entities
pub mod Caps
pub mod Floors
pub mod Filters
pub mod Rows
pub mod Kinds
pub mod Writing
