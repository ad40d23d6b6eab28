pub mod Places
pub mod Cells
pub mod Done
pub mod Next
pub mod Words
