pub mod Cells
pub mod Grammar
pub mod Decoding
pub mod Stage
