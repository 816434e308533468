pub mod Runs
pub mod Descents
