pub mod Damage
pub mod Few
