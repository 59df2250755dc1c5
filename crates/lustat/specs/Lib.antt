pub mod Whole
pub mod First
pub mod AllFaults
