-- Striking the dead rows of a table: which rows are kept, the table and the text without the dead, and what they owe the old ones.
pub mod Striking
pub mod Texts
pub mod Lines
pub mod Bytes
