pub mod DispatchTexts
pub mod DispatchTold
pub mod DispatchAccount
pub mod WatchTexts
pub mod WatchHeld
pub mod WatchAccount
