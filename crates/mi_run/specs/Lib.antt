pub mod Course
pub mod Ending
pub mod Lines
pub mod Reading
pub mod Taking
pub mod Waits
