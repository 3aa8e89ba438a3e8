pub mod TakenLemmas
pub mod ContainerLemmas
pub mod CourseLemmas
pub mod ReadingLemmas
