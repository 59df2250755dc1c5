pub mod Views
pub mod Tests
