pub mod Meanings
pub mod Conflicts
pub mod Filling
pub mod Calls
pub mod Examples
pub mod Laws
