pub mod Plan
pub mod Sorts
pub mod Faults
pub mod Places
pub mod Containers
pub mod Courses
pub mod Reading
pub mod Taken
