mod Tables
pub mod Pieces
mod SoundExpressions
pub mod SoundDeclarations
pub mod SoundPrograms
mod CompletePieces
mod CompleteExpressions
mod CompleteDeclarations
pub mod CompletePrograms
pub mod Printed
mod Examples
mod Local
mod LocalExpressions
pub mod LocalPrograms
mod Viable
mod ViableExpressions
pub mod ViablePrograms
pub mod Plain
pub mod TextPieces
mod ScanningLemmas
mod Cuts
mod Runs
pub mod Whole
