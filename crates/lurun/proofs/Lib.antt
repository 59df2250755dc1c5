pub mod Lists
mod Acts
mod Moves
mod Places
mod Dealing
mod Reported
mod Columns
mod Endings
mod Named
pub mod WholeOutputs
mod Collected
mod Rearranged
mod Answers
mod OpenedEnds
mod Made
mod LeftReports
mod Crosses
