pub mod Lines
pub mod TableFacts
