pub mod Walks
pub mod Nodes
pub mod Listed
pub mod Operands
pub mod Counted
