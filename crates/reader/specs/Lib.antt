-- Document 01, "The table text" and its refusals 1 to 7: from a text to its table, or to its refusal.
pub mod Lines
pub mod Frames
pub mod Forms
pub mod States
pub mod Rules
pub mod Faults
pub mod Views
