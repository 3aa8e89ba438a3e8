pub mod OverLemmas
pub mod KeyLemmas
pub mod SortLemmas
pub mod CountLemmas
pub mod OnceLemmas
pub mod WorkLemmas
pub mod OrderLemmas
pub mod PartLemmas
