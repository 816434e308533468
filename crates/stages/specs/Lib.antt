pub mod Tree
pub mod Stages
pub mod Listed
pub mod Through
pub mod Denied
