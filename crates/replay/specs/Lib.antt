pub mod Pieces
pub mod Agreement
pub mod Replay
pub mod Examples
