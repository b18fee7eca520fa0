-- The twenty-two kinds of anomalies: what each says, its test, the list of them, and the list of a table's entries.
pub mod Meanings
pub mod Views
pub mod Tests
pub mod Seen
pub mod Kinds
pub mod Entries
pub mod Extended
pub mod Examples
