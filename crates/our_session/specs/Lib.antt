pub mod Ours
pub mod Does
pub mod Demand
pub mod Suspension
pub mod Ledger
