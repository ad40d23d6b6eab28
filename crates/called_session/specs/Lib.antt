pub mod Called
pub mod Demand
pub mod Fresh
pub mod Refused
pub mod Kind
pub mod Suspension
pub mod Ledger
