pub mod Bays
pub mod LimitsOf
pub mod SeenLemmas
pub mod OnRail
pub mod MirrorLemmas
pub mod TurnLemmas
pub mod GoesLemmas
pub mod PairOrder
mod RuleOrder
mod Parts
pub mod Extremes
pub mod NodeLemmas
pub mod CompleteNodes
pub mod Sums
pub mod LeastStarts
pub mod LeafLemmas
pub mod Scaled
pub mod Levels
pub mod Places
pub mod PlaceTerms
pub mod Standing
pub mod Moves
pub mod WholeTicks
pub mod SafeLemmas
pub mod Bounded
