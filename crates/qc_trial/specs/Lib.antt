pub mod Made
pub mod Texts
pub mod Account
pub mod Stored
