pub mod Labs
pub mod Facts
pub mod Marking
pub mod Noted
