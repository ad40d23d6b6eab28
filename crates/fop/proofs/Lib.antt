pub mod Choices
pub mod Numbers
pub mod Test
pub mod Ways
pub mod Lent
pub mod Trace
mod Numbered
