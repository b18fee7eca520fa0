-- The least packet of a row that no box claims: the search over candidate values, field by field, for any number of fields; covers, by which it
-- is found sooner; and the fields in another order.
pub mod Search
pub mod Views
pub mod Covers
pub mod Turns
