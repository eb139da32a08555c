pub mod Small
pub mod Refuted
