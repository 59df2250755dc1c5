pub mod Dividing
pub mod Warnings
pub mod Scans
pub mod Vectors
