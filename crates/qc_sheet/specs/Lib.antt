pub mod Order
pub mod SheetText
pub mod Kept
pub mod Entries
pub mod Works
