pub mod Builds
pub mod Faults
pub mod Made
pub mod EveryPair
pub mod Reached
pub mod Course
pub mod Written
pub mod Puts
