pub mod Limits
pub mod Clauses
pub mod Sheets
pub mod Health
pub mod Support
pub mod Changes
pub mod Examples
