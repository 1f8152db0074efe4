-- Laws that several functions cite.
pub mod Asking
pub mod Writing
pub mod Lending
pub mod Calling
pub mod Alone
pub mod Numbers
