pub mod MovesLemmas
pub mod StoreLemmas
pub mod WorkedLemmas
