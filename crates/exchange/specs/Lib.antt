-- A finding and its order as text: the grammar, what is read of a text, what is written, and what the two calls answer and leave.
pub mod Grammar
pub mod Reader
pub mod Writer
pub mod Arrays
pub mod Cursor
pub mod Exchange
pub mod Length
pub mod Theorems
pub mod Examples
