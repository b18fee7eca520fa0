-- Document 02, [5]: the prefixes of a range of addresses, their bytes, and the range of a side.
pub mod Prefixes
pub mod Bytes
pub mod Sides
