-- What was read or written, and how much of it.
pub mod Moved
