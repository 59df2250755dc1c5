pub mod KeptFlows
pub mod Machine
pub mod Logs
pub mod Sites
pub mod Widths
pub mod States
pub mod Reports
