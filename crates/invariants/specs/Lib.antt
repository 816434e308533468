pub mod Events
pub mod Learns
