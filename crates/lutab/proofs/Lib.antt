mod Values
mod Lines
mod Fields
mod Reached
mod Headers
mod Plain
pub mod Reported
pub mod Texts
mod Rowwise
pub mod Joins
mod Written
mod Placing
mod Repeats
pub mod Spelled
