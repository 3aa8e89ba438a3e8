pub mod TreeFileLemmas
pub mod ReadLemmas
pub mod TreeLemmas
pub mod JudgedLemmas
pub mod ReportLemmas
