mod Instances
pub mod Meanings
mod FaultVectors
mod FaultPaths
pub mod RunSourced
