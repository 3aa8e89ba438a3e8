pub mod StepLemmas
pub mod DueLemmas
pub mod StatusLemmas
pub mod ReportLemmas
pub mod RuleLemmas
pub mod ToldLemmas
pub mod AccountLemmas
