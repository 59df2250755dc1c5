pub mod OwnColumns
mod Marked
mod Linked
mod Planned
mod Sited
pub mod Listed
pub mod Growing
pub mod Cycles
pub mod Least
pub mod Ending
pub mod Unique
