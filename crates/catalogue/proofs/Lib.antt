pub mod Filling
pub mod Closing
mod Examples
pub mod Calls
