pub mod Placed
pub mod Columns
pub mod Turns
pub mod Replay
pub mod Passed
pub mod Laws
