mod Crosses
mod Parts
mod Slots
mod Steps
mod Ends
mod Runs
mod Standing
mod Waits
pub mod Closing
