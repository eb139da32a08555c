pub mod Table
pub mod Params
pub mod Packed
pub mod Claims
pub mod Rule
pub mod Smallest
pub mod Answers
pub mod Examples
