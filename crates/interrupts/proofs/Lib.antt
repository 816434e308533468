pub mod Sets
pub mod Chosen
