-- The rows that cover a row, the sets of their boxes, and what is to be found: the least packet of the row that none of them has.
pub mod Least
pub mod Views
pub mod Sets
pub mod Covers
