pub mod Feeding
pub mod Program
