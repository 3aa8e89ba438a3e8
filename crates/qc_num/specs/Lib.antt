pub mod Bounds
pub mod Digits
pub mod Paths
pub mod Reading
