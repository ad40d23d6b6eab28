pub mod Decimals
pub mod Canonical
pub mod Cuts
pub mod Scans
pub mod Spelling
pub mod Outcomes
pub mod Tens
pub mod Buffers
