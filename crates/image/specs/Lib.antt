pub mod Image
pub mod Data
