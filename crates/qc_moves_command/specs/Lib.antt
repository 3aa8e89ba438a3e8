pub mod Figures
pub mod Account
pub mod Promises
pub mod Ready
pub mod Worked
