pub mod First
pub mod Exchange
pub mod Sweep
pub mod Parts
