pub mod Position
pub mod Placed
pub mod Press
