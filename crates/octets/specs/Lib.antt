pub mod Rows
pub mod Laws
pub mod Spans
pub mod Multiples
