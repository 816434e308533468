pub mod Fields
pub mod Places
pub mod Rules
pub mod Views
pub mod Registers
pub mod File
