pub mod Digits
pub mod OneSpelling
pub mod NodeLemmas
pub mod OrderLemmas
pub mod TreeBound
pub mod LineInLemmas
