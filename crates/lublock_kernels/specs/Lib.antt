pub mod Blocks
pub mod Machine
pub mod Parts
pub mod Wholes
pub mod Words
pub mod Rows
