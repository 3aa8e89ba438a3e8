pub mod Lent
pub mod Rows
pub mod Threads
pub mod Values
pub mod Written
