pub mod Gives
pub mod Refused
pub mod Places
pub mod Resolved
pub mod Laws
pub mod Tables
pub mod Known
