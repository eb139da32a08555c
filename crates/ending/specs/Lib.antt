pub mod Scalars
pub mod Ran
pub mod Told
pub mod Journal
pub mod After
pub mod Then
pub mod Ends
pub mod Stops
