pub mod Faults
pub mod Widths
