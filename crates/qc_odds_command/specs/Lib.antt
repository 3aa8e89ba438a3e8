pub mod Texts
pub mod Forecasts
pub mod Account
pub mod Promises
pub mod Counted
pub mod Ready
