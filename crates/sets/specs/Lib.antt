pub mod Limit
pub mod Sets
