pub mod Texts
pub mod Reports
pub mod Held
pub mod TreeFile
pub mod Shown
pub mod Account
pub mod Promises
