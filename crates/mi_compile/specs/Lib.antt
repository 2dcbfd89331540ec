pub mod Digits
pub mod Escaped
pub mod Families
pub mod Named
pub mod Taking
