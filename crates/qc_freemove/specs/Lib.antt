pub mod FreeMotion
pub mod HalfPoints
pub mod HalfLines
pub mod FreeTracks
pub mod FreeRoom
pub mod FreeSweep
pub mod FreeTracksText
