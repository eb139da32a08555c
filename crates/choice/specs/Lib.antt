pub mod Sizes
pub mod Choose
pub mod Follows
