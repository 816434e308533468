pub mod Translated
pub mod On
pub mod Causes
