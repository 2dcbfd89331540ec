mod Begun
mod Eight
mod Explained
mod Imaged
mod Joined
mod Loaded
pub mod NoImage
mod Restored
mod Stored
