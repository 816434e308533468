pub mod Accesses
pub mod On
pub mod Cases
pub mod Demand
pub mod Delivered
pub mod Faults
