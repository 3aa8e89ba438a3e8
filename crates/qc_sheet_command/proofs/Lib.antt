pub mod LoadLemmas
pub mod WorkableLemmas
