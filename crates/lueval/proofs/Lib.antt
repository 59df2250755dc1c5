mod Ageing
pub mod Answering
mod FirstFaults
pub mod Listing
mod Steps
mod Wanting
mod Ranking
