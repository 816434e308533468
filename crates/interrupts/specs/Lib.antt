pub mod Interrupts
pub mod First
