pub mod Faults
pub mod Fields
pub mod Columns
pub mod Rows
pub mod Moves
pub mod Stow
pub mod Taken
