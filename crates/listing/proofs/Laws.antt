-- Laws of the marks, of the entries that are written, of what a table lends, and of the marks that are kept.
pub mod Ones
pub mod Puts
pub mod Filters
pub mod Tables
pub mod Kept
pub mod Places
