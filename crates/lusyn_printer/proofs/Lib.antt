mod Joined
mod Operands
mod Pieces
mod Longest
mod Wholes
mod Cut
mod Peaks
mod Sizes
mod Narrow
pub mod ReadBack
pub mod Bare
mod Branches
mod Types
mod Vectors
mod Steps
