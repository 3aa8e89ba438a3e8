pub mod Due
pub mod Listed
pub mod Account
