pub mod Engine
pub mod Reading
pub mod Ready
pub mod Steps
