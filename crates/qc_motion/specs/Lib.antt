pub mod Waypoints
pub mod Tracks
pub mod Room
pub mod Sweep
pub mod CraneLines
