-- Document 01, "The table text": what stands below the frames.
pub mod Digits
pub mod Lines
pub mod Numbers
pub mod Letters
