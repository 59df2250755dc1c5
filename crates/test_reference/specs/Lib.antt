pub mod AsMark
pub mod Grids
pub mod Filled
pub mod AsItem
pub mod Scripts
pub mod Links
pub mod Insides
