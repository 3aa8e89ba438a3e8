pub mod Calls
pub mod Memory
pub mod Outside
pub mod Reads
pub mod Writes
