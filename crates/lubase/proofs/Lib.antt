mod Pushed
pub mod Marks
mod Stepping
pub mod Ordering
mod Either
mod Bounds
mod Grouping
mod Leaving
mod Going
mod LinkRows
mod Entering
mod Reaching
pub mod Finding
pub mod Sought
