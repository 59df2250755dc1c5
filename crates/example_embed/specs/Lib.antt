pub mod Texts
pub mod Words
pub mod Replayed
pub mod Ran
