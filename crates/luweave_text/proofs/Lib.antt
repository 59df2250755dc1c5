pub mod Texts
mod Lines
mod Signals
