pub mod Planned
pub mod Motion
pub mod Account
