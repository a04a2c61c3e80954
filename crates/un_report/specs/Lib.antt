pub mod Reports
pub mod Views
