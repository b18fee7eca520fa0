-- The laws that crates above cite.
pub mod Relations
pub mod Entities
pub mod Climbs
pub mod Technologies
pub mod Coefficients
pub mod Selectors
pub mod Groups
pub mod Renumbered
pub mod Extended
pub mod Tables
pub mod Examples
pub mod Bounds
