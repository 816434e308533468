pub mod Place
pub mod Words
