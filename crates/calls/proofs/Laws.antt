-- The laws that crates above cite.
pub mod Texts
pub mod Cases
