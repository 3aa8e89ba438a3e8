pub mod TallyLemmas
pub mod WayLemmas
pub mod PageLemmas
pub mod MotionLemmas
pub mod TimeLemmas
pub mod EvenLemmas
pub mod WholeLemmas
