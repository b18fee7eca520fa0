-- Dead or witness of a row of a table.
pub mod Verdicts
pub mod Promises
