pub mod Cleared
pub mod Courses
pub mod Reading
pub mod Recovered
pub mod StartLemmas
pub mod StepLemmas
pub mod Tables
