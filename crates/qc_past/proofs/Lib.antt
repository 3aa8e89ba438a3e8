pub mod StartLemmas
pub mod PastLemmas
