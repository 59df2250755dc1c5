pub mod Spread
pub mod Programs
pub mod Carriers
pub mod Logs
