pub mod Ranges
pub mod CutLaws
pub mod ScopeLaws
