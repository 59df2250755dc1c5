pub mod Anchors
pub mod Chains
pub mod Named
pub mod Asked
