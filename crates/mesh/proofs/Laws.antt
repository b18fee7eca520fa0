-- The laws of cuts and cells, and those of the functions.
pub mod Cuts
pub mod Corners
pub mod Cells
pub mod Nearest
pub mod Filled
pub mod Loops
pub mod Blocks
pub mod Fields
pub mod Meshed
pub mod Tables
