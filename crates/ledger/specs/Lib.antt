pub mod Ledger
pub mod Accounted
