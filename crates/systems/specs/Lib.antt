pub mod Text
pub mod Digits
pub mod Lined
pub mod Cases
pub mod Example
