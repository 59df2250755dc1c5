mod Added
mod Aligning
mod Causes
mod Edges
mod Feeding
mod Items
mod Plain
mod Ranges
