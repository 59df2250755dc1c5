pub mod Standing
pub mod Settling
mod Renewing
pub mod Showing
mod Running
pub mod Answered
