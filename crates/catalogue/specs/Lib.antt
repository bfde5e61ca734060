pub mod Notes
pub mod Drafts
pub mod Examples
