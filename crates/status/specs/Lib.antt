pub mod Trap
pub mod Return
