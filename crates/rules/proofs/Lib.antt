pub mod Cases
pub mod Indices
pub mod Judgements
pub mod Masks
