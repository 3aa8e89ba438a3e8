pub mod Plans
pub mod Hunts
