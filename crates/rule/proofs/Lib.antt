pub mod Ties
pub mod Labels
pub mod Chosen
pub mod Singles
pub mod Step
pub mod Arrange
pub mod Places
pub mod Reached
