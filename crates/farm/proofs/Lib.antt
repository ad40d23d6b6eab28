pub mod Cells
pub mod Windows
pub mod Words
pub mod Units
pub mod Sound
pub mod Facts
pub mod Refuted
