-- What the sampling crate means: bytes cut into blocks, the plain recording of four boards, the sampler and what start and feed do to it and to the words, the
-- earlier rule and the carry-over from it; and what holds after every list of feeds.
pub mod Cut
pub mod Putting
pub mod Sampler
pub mod Feeding
pub mod Stretch
pub mod Earlier
pub mod Carrying
pub mod Boards
pub mod Recorded
pub mod Kept
pub mod Reversed
pub mod Examples
