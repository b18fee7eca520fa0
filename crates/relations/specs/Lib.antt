-- Document 01, "Relations". Each relation has its meaning, as document 01 says it, and a test that computes; proofs/ has the law
-- that the test is true exactly when the meaning holds.
pub mod Relations
pub mod Entities
pub mod Technologies
pub mod Coefficients
pub mod Ranges
pub mod Selectors
pub mod Groups
pub mod Examples
