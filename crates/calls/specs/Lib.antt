-- What calls on a row have in common: their condition, their answer, and what the enum of Witness and Mesh says in each of its cases.
pub mod Rows
pub mod Views
