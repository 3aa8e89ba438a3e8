pub mod Members
pub mod OrderLemmas
pub mod Extremes
mod BandLemmas
pub mod SpanLemmas
pub mod LoopLemmas
pub mod CountLemmas
pub mod GrainLemmas
pub mod DecidedCranes
pub mod PackBounds
mod SumLemmas
mod WalkLemmas
mod ShortLemmas
mod OwnLemmas
pub mod CrewLemmas
mod SpotLemmas
mod SpotLists
mod BarLemmas
mod TableLemmas
mod TripLemmas
mod StretchLemmas
mod PlaceLemmas
pub mod KeptLemmas
pub mod LongestLemmas
pub mod LimitLemmas
