mod Reported
pub mod CallPlaces
mod CallsPushed
pub mod CallWays
mod Places
mod Standing
mod Forms
mod Lookups
mod Fit
mod Defining
mod Branches
mod NameAt
