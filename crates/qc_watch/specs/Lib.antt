pub mod Numbers
pub mod Faults
pub mod Log
pub mod Since
pub mod Reports
pub mod Moments
pub mod Breach
pub mod Cursors
