pub mod Facts
pub mod Figures
pub mod Shrink
