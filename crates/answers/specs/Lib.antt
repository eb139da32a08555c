pub mod Answers
pub mod Rooms
