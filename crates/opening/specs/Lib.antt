pub mod Rows
pub mod Marks
pub mod Opened
