pub mod PutBack
pub mod Texts
pub mod Rolls
