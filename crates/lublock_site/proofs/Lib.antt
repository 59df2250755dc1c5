mod Links
mod Writing
mod Taking
mod Refitted
mod Marked
mod Passing
mod Closed
mod Moving
mod Behind
mod Reporting
mod Ended
mod Coded
mod Owned
mod Pushed
mod Starting
pub mod Crosses
