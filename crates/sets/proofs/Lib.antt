pub mod Membership
pub mod Order
pub mod Counts
pub mod Loops
pub mod Calls
