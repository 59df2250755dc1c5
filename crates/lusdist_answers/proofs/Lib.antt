pub mod Worlds
mod AskedFor
mod HasOutputs
mod Outcomes
mod Spelled
mod TrueReports
mod Replays
mod Exclusive
mod OneStatus
mod Ran
mod OneRefusal
mod Stops
mod Ends
mod Headlines
mod Tellings
mod Faulting
mod FirstNames
mod Lists
