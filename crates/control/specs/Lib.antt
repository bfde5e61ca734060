pub mod Grounds
pub mod Views
pub mod Examples
pub mod Laws
