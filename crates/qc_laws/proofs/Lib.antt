mod Rows
mod PackLemmas
mod FrameLemmas
mod BarredLemmas
mod Paths
mod Trips
mod Tracks
mod WayLemmas
pub mod ClosedLemmas
pub mod NodeLemmas
