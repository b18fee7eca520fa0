-- The kinds that hold of a row as numbers, and the entries as bytes in the caller's buffer.
pub mod Marks
pub mod Bytes
