mod Pushing
mod Within
mod Going
pub mod Bounds
pub mod Fits
pub mod Standing
mod Complete
pub mod Meaning
mod CallsPassed
mod Low
mod Calling
mod Paths
mod ListedVariables
mod Taken
pub mod Deep
pub mod Operands
pub mod Descent
pub mod Finding
pub mod Equations
pub mod CallSites
pub mod Failing
pub mod FlowOwners
pub mod InstanceFlows
pub mod Passed
pub mod Sought
pub mod Following
pub mod Stepped
pub mod FirstTold
pub mod Signing
pub mod Wording
