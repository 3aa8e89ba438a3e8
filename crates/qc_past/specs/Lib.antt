pub mod Faults
pub mod Fields
pub mod Tasks
pub mod Past
pub mod PastFile
pub mod Kept
