pub mod Recurrence
pub mod Randomized
pub mod Rule
pub mod Runs
