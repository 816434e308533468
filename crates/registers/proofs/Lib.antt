pub mod Restrictions
pub mod Legal
pub mod Rows
pub mod Through
pub mod Straight
