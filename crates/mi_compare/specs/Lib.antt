pub mod Refusal
pub mod Meaning
pub mod Filled
