-- Document 02, [8]: what the call Mesh answers, as a function of its arguments.
pub mod Calls
