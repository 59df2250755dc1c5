pub mod Boards
pub mod Shown
