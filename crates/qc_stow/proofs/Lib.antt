pub mod TakenFacts
pub mod StowFacts
mod ColumnFacts
