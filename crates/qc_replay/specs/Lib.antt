pub mod Walk
pub mod Shown
pub mod Read
pub mod Crewed
pub mod Earliest
pub mod Part
pub mod File
pub mod Stages
