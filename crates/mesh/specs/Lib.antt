-- Document 02, [8]: the mesh of a row by the boxes that could cover it, for any number of fields; what is promised of it; and blocks of its cells.
pub mod Mesh
pub mod Promises
pub mod Verdicts
pub mod Views
pub mod Blocks
