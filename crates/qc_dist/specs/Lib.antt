pub mod Added
pub mod Node
pub mod Children
pub mod Kept
pub mod Heads
pub mod Tables
pub mod Fields
