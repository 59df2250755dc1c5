pub mod Solutions
pub mod Prefixes
mod Tidy
pub mod TidyStreams
pub mod Faults
pub mod Tidied
pub mod FaultsFound
pub mod Worked
pub mod Vectors
pub mod Fitting
mod Columns
pub mod Patterns
mod Merges
