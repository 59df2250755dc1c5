pub mod Machine
mod SiteStates
pub mod Reported
mod Offers
pub mod Turns
mod Starts
mod Outputs
mod FaultsReported
mod Passed
mod Widths
mod Skips
mod Moves
mod Held
mod Rows
mod SiteFlows
mod Begun
mod Shut
mod Counting
mod Looking
pub mod KeptFlows
mod Drawn
mod Instants
mod OneMore
mod Unstopped
mod Wholes
