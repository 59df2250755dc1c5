pub mod WorldText
pub mod Items
pub mod Waits
pub mod Stray
pub mod Charted
pub mod Traced
pub mod Waves
