-- Laws of what is printed, of how long it can be, and of inputs in another case.
pub mod Lines
pub mod Printed
pub mod Answers
pub mod Rooms
pub mod Inputs
pub mod Letters
