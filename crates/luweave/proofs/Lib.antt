mod Worlds
mod Moving
pub mod Endings
mod Headlines
mod Finishing
mod Schedules
pub mod NewSites
mod Instants
