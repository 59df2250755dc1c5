pub mod Words
pub mod Counts
pub mod Lists
pub mod Rings
pub mod Views
pub mod Seen
pub mod Insides
pub mod RingLaw
