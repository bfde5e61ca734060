pub mod Stretches
pub mod LookUps
