-- The laws that crates above cite.
pub mod Least
pub mod Sets
pub mod Places
pub mod Covers
pub mod Claims
pub mod Tables
