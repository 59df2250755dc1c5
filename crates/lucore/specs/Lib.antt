pub mod Result
pub mod Lines
