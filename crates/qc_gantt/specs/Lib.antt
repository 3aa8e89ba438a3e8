pub mod Entries
pub mod Faults
pub mod Names
pub mod Plan
pub mod PlanText
pub mod GanttText
pub mod TracksText
