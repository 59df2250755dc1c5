pub mod Worlds
pub mod Headline
pub mod Schedules
pub mod Slowest
