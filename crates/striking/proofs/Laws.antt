-- The laws that crates above cite.
pub mod Kept
pub mod Tables
pub mod Struck
pub mod Texts
pub mod Bytes
pub mod Letters
