-- What the counting crate means: a block and its bin, a sample and its counts, bytes as a recording's blocks, the words that hold blocks, bytes with their
-- bits reversed, a stretch of the blocks and how it is counted; and what stands in a buffer after entries were put into it.
pub mod Block
pub mod Refusal
pub mod Sample
pub mod Recording
pub mod Words
pub mod Stretch
pub mod Chunk
pub mod Reversed
pub mod Tally
pub mod Rows
pub mod Buffer
