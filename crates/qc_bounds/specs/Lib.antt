pub mod Closed
pub mod Packed
pub mod Work
