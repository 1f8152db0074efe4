-- What the sheet is: numbers in columns, the header, the lines, the judgement of the training bytes' finding on the testing bytes, and what is refused.
pub mod Columns
pub mod Header
pub mod Lines
pub mod Judgement
pub mod Refusal
pub mod Sheet
pub mod Examples
