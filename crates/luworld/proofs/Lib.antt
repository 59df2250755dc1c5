pub mod Counts
pub mod Steps
pub mod Jobs
pub mod Ends
mod Totals
mod Turns
pub mod Parts
pub mod Wired
mod Listed
mod Passing
mod Whole
pub mod Enabled
pub mod Left
mod Exact
mod Items
mod Example
pub mod Ended
pub mod Rounds
pub mod Cuts
pub mod Messages
pub mod Outlines
pub mod Cursor
pub mod Fitting
pub mod PassedWhole
mod WorkedPlans
mod WorkedChains
pub mod Remaining
