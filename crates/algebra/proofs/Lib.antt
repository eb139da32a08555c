pub mod Rows
pub mod Solve
pub mod Order
pub mod Flat
pub mod Slab
pub mod Singular
pub mod Loops
