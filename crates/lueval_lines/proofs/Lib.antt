pub mod Faults
mod Keeping
pub mod Lines
pub mod Moved
pub mod Named
pub mod Noting
pub mod Reading
pub mod Seeing
pub mod Spans
pub mod Reported
mod Unders
pub mod SlotValues
pub mod Spanning
pub mod Ordering
pub mod Worked
pub mod Elements
