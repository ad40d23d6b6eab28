pub mod Told
pub mod Narrowed
pub mod Modes
