-- Document 02, [2]: joining two rows.
pub mod Joining
