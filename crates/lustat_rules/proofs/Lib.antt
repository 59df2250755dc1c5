pub mod Fitting
pub mod Raising
mod Worked
mod OneNode
pub mod Sampler
mod Delayed
mod Once
pub mod Calling
mod Rounds
pub mod Judging
mod Classed
pub mod Stages
mod Switch
mod Enumerated
pub mod Agreeing
mod Merging
pub mod Declared
pub mod Keeping
pub mod Placed
mod Labelled
pub mod Lent
pub mod Gaining
pub mod Ordering
pub mod Telling
