pub mod Field
pub mod Assign
pub mod Every
