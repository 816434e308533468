pub mod Moves
pub mod Sound
pub mod Presses
