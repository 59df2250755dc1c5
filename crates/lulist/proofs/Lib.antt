pub mod Crosses
mod Moving
mod Passing
mod Instants
mod Linked
mod Begun
mod Told
mod Ordered
