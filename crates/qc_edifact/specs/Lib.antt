pub mod Texts
pub mod Signs
pub mod Cuts
pub mod Segments
