pub mod Adding
pub mod Divided
pub mod Mentioned
pub mod Parts
pub mod Worked
