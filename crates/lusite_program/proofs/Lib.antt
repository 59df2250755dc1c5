pub mod Written
pub mod Ranges
pub mod Sifted
pub mod Ranks
pub mod Carried
pub mod Spread
pub mod SiteFlows
pub mod OutputLogs
