pub mod Told
pub mod Least
pub mod Picked
