mod Words
pub mod Rights
pub mod Frames
mod Written
pub mod Steps
mod Carried
pub mod Wholes
mod Filling
mod Counting
mod Parting
