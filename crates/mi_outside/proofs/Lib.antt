pub mod Places
pub mod Putting
pub mod Gathering
pub mod Writing
