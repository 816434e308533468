pub mod Picked
pub mod Stopped
pub mod Reached
