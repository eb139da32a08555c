pub mod Marks
pub mod Again
pub mod Gather
pub mod Columns
pub mod Vector
