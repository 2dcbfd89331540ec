pub mod Sought
pub mod SourceText
