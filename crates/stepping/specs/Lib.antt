pub mod Parts
pub mod Due
pub mod Lengths
pub mod Stands
pub mod Turns
