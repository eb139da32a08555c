pub mod Over
pub mod Call
pub mod Called
pub mod Ignored
pub mod Tests
pub mod Space
