pub mod Draws
pub mod MadeList
pub mod MadeTable
