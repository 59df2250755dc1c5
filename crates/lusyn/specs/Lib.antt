pub mod Gives
pub mod Refusals
pub mod Texts
pub mod Lines
pub mod Laws
pub mod Places
