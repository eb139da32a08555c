pub mod Tables
pub mod Powers
pub mod Field
pub mod Examples
