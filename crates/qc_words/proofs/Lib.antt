pub mod ReadLemmas
pub mod LimitLemmas
mod NameLemmas
