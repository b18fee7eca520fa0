-- What a table holds: document 01's records over lists, the rules that every accepted table keeps, and what the code's structs stand for.
pub mod Limits
pub mod Model
pub mod Wellformed
pub mod Words
pub mod Fields
pub mod Views
pub mod Writes
