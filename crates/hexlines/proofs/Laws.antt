-- The laws that crates above cite.
pub mod Lines
pub mod Numbers
pub mod Digits
pub mod Letters
