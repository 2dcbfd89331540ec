pub mod ChainWalks
pub mod Digits
pub mod Named
pub mod Reading
pub mod Shorter
pub mod Texts
pub mod Unescaping
