pub mod Cells
pub mod Families
