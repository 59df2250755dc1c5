mod Reporting
mod First
pub mod Same
mod Surveyed
