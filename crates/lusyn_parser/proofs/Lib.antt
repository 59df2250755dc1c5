mod Atoms
mod Loops
pub mod Whole
mod Placing
mod PlacingPieces
mod PlacingNodes
mod PlacingTypes
mod Prefixes
mod Signs
mod Names
pub mod Bare
mod Once
mod Tables
mod Changed
mod Operands
