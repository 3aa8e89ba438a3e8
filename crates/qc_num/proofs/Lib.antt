pub mod BoundLemmas
pub mod DigitLemmas
pub mod Lists
pub mod ReadingLemmas
