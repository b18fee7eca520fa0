-- The calls' answers as numbers.
pub mod Codes
