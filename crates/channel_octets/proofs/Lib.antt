pub mod Back
pub mod Judged
pub mod Put
pub mod Table
pub mod Taken
