pub mod Forms
pub mod Feeding
pub mod Supports
mod Examples
