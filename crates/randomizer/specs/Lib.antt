pub mod Randomizer
