pub mod Account
pub mod Promises
