pub mod Octet
pub mod Answers
pub mod Sums
pub mod Products
pub mod Powers
pub mod Field
pub mod Only
pub mod Examples
