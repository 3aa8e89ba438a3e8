pub mod EntryLemmas
pub mod GanttLemmas
pub mod NameLemmas
pub mod PlanLemmas
pub mod RereadLemmas
