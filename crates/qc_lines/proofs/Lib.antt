pub mod Feeds
pub mod PlainRows
pub mod WholeReads
pub mod FieldFacts
pub mod LineLemmas
