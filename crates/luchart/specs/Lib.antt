pub mod Pieces
pub mod Signals
pub mod Chronogram
pub mod Dump
pub mod Cut
pub mod Scopes
