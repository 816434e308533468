pub mod Layout
pub mod Taken
