pub mod First
pub mod Halving
pub mod Going
pub mod Parts
pub mod Looks
pub mod Listed
pub mod Columns
pub mod Twins
