pub mod Faults
pub mod Reads
pub mod Steps
pub mod Whole
pub mod Ranked
