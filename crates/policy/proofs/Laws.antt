-- The laws that crates above cite.
pub mod Words
pub mod Runs
pub mod Lists
pub mod Tables
pub mod Changed
pub mod Equal
