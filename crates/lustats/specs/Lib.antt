pub mod Sizes
pub mod Text
