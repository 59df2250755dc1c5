mod Again
mod Limits
mod Whole
pub mod Exclusive
pub mod Places
pub mod OneRefusal
