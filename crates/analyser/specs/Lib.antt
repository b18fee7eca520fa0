-- Document 01, "The six calls", and document 02: what each call answers, as a function of its arguments, and what its contract says.
pub mod Calls
pub mod Views
pub mod CallAnswers
