-- The laws that crates above cite.
pub mod Verdicts
pub mod Tables
pub mod Extended
pub mod Lent
