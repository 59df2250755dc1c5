mod Places
mod Ranges
mod FilledCells
pub mod Scripted
mod AllScripts
mod Prefixes
mod Steps
pub mod Crosses
