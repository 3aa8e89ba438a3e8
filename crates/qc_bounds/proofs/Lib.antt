pub mod ClosedLemmas
pub mod PackedLemmas
pub mod WorkLemmas
