pub mod InstanceOf
pub mod Marks
pub mod Restows
pub mod Rings
pub mod TasksText
