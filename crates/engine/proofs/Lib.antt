pub mod Zeros
pub mod Walks
pub mod Places
pub mod Left
