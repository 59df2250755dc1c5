mod Graph
mod Owning
mod Makes
mod Expressions
mod Nodes
pub mod ToSource
mod Places
mod Placing
mod Instances
pub mod ToFlat
pub mod Each
pub mod Open
pub mod Names
pub mod Well
pub mod Spots
pub mod ListToSource
pub mod Roots
pub mod ListInstances
pub mod ByCalls
pub mod Facts
mod NodeToSource
mod ListToFlat
pub mod NodeToFlat
pub mod Static
pub mod NodeStatic
pub mod Gate
pub mod Whole
pub mod Same
pub mod Closed
pub mod Counting
mod ListNodes
pub mod There
pub mod SourceFaults
pub mod NodeFaults
mod Deciding
mod Counts
mod Reading
pub mod Orders
mod RankWalks
mod Stepping
mod Cycles
mod Heaps
mod Free
mod Types
mod Fitting
mod Parts
mod SoundWalks
mod SoundExpressions
mod Ruling
mod Variables
mod SoundNodes
pub mod Roles
mod Programs
mod Near
mod Owners
pub mod Flats
mod FlowTypes
