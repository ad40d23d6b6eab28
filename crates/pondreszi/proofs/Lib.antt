pub mod Narrowed
pub mod Numbering
