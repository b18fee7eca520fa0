-- What is about no document: truths, tests as bits of a number, lists of numbers, the least of what is above two things, the caller's output, conditions that refuse, answers.
pub mod Truths
pub mod Bits
pub mod Lists
pub mod Pairs
pub mod Bounds
pub mod Outputs
pub mod Checks
pub mod Answers
