pub mod Fields
pub mod Lines
pub mod Trees
pub mod LineIn
pub mod Faults
