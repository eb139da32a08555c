pub mod Loop
pub mod Front
pub mod Part
pub mod Entry
pub mod Table
pub mod Room
pub mod Out
pub mod Way
