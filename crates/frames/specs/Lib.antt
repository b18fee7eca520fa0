-- Document 01, "The table text": the frames, a file for each kind. The bytes here are those of a line after its kind byte.
pub mod Refusals
pub mod Views
pub mod Faults
pub mod Progress
pub mod Parts
pub mod Numbers
pub mod Entities
pub mod Caps
pub mod Floors
pub mod Filters
pub mod Rows
pub mod Kinds
