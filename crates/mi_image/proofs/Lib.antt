mod Bytes
pub mod Loads
pub mod Numbers
pub mod Whole
pub mod Allowed
pub mod Later
pub mod Sound
pub mod Steps
pub mod Fed
