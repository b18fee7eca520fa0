-- Document 01, "Programs": what rowlist and strike print of their input.
pub mod Limits
pub mod Printed
