pub mod RunLemmas
mod StayLemmas
