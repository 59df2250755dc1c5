mod Sourcing
mod Spreading
mod Leasts
mod Reporting
mod Starting
mod Equations
pub mod Rowing
mod Pushed
mod Beginning
mod Tabled
mod Naming
mod Surveyed
