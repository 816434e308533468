pub mod Widths
pub mod Needs
pub mod Faults
