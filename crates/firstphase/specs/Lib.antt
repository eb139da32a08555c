pub mod Clears
pub mod Ended
pub mod Begins
pub mod Same
